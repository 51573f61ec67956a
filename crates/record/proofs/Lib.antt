pub mod Whole
pub mod Ranks
pub mod Fields
pub mod Claims
pub mod Ways
