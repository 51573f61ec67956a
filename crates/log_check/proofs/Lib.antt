pub mod Lists
pub mod Places
pub mod Scans
pub mod Sound
