pub mod Anew
pub mod Raised
pub mod Lowered
