pub mod Steps
pub mod Sim
pub mod Acts
pub mod Passes
pub mod Fed
pub mod Skipped
pub mod Claims
