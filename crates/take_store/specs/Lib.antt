pub mod Stored
pub mod New
