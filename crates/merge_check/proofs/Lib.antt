pub mod Loops
pub mod Clash
