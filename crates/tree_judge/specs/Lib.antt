pub mod Judged
pub mod Asides
