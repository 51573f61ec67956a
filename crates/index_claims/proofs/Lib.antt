pub mod Claims
pub mod Small
pub mod Kept
