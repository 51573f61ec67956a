pub mod Highest
