pub mod Present
pub mod Longest
