pub mod Places
pub mod Working
pub mod Names
pub mod Homes
pub mod Labels
pub mod Below
