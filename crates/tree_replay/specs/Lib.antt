pub mod Playable
pub mod Registers
