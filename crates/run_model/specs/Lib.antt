pub mod Runs
pub mod Blocks
pub mod Examples
