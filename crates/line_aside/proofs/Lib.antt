pub mod Words
pub mod Asides
