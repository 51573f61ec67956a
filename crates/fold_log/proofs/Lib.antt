pub mod Counts
pub mod Dropped
