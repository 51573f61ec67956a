-- The SAB2 file as definitions.
pub mod Rows
pub mod Sab2
pub mod Calls
pub mod Examples
