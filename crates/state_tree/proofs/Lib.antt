pub mod Loads
pub mod Replayed
