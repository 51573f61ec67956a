pub mod Changes
pub mod Amending
pub mod Registers
