pub mod Keeping
pub mod Laid
