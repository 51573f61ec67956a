pub mod Labels
pub mod Counts
pub mod Keeping
