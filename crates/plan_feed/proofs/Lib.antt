pub mod Feeding
pub mod Keeping
