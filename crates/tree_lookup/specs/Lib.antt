pub mod Roles
pub mod Lookup
pub mod Found
