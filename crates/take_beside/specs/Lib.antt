pub mod Judging
pub mod Counts
