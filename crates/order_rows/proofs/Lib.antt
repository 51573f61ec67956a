pub mod Notes
pub mod Ways
pub mod Alike
pub mod Finding
pub mod Tables
