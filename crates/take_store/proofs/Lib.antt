pub mod News
pub mod Storing
