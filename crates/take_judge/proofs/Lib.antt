pub mod Beside
pub mod Going
