pub mod Heard
pub mod Worlds
