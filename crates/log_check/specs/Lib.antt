pub mod Places
pub mod InOrder
pub mod Told
