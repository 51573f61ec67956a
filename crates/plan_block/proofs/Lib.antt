pub mod Events
pub mod Blocks
