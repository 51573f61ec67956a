pub mod Rows
pub mod Listed
pub mod Roles
pub mod Labels
pub mod Entering
