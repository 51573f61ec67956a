pub mod Ran
pub mod Typed
pub mod Whole
