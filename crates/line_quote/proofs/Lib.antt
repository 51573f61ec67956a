pub mod Hex
pub mod Labels
