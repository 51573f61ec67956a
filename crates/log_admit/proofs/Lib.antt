pub mod Counts
pub mod Tables
pub mod Faults
pub mod Admits
