pub mod Checks
pub mod Behind
