pub mod Union
pub mod Counts
pub mod Faults
pub mod Claims
