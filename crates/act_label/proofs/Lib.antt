pub mod Bytes
pub mod Label
pub mod Body
