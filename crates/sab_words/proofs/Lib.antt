pub mod Heads
pub mod Told
pub mod Units
