pub mod Changes
pub mod Stepping
