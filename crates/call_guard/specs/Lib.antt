pub mod Opened
pub mod Told
