pub mod Written
pub mod Rewritten
pub mod Claims
pub mod Taking
pub mod Merged
