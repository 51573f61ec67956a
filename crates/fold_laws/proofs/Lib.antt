pub mod Hearing
pub mod Covering
pub mod Twice
pub mod Bases
pub mod Stores
pub mod Worlds
pub mod Alike
pub mod Claims
