pub mod Rows
pub mod Writes
pub mod Fields
