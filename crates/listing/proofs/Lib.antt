pub mod Whole
pub mod Outcomes
pub mod Claims
pub mod Output
