pub mod Additions
pub mod Effects
pub mod Registers
