pub mod Gathered
pub mod Joined
