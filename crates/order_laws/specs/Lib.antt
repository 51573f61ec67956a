pub mod Marking
pub mod Claims
