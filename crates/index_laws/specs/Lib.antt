pub mod Copied
pub mod Listed
