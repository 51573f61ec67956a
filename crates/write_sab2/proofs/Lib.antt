pub mod Placed
pub mod Whole
pub mod Ways
