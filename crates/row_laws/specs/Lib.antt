pub mod Raised
pub mod Stopped
pub mod Disputes
