pub mod Alike
pub mod Calls
