pub mod Raised
pub mod Standings
pub mod Ties
