pub mod Plain
pub mod Laid
pub mod Examples
