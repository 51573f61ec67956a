pub mod Date
pub mod Claims
