pub mod Running
pub mod Trying
