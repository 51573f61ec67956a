pub mod Distances
pub mod Dominance
pub mod Higher
pub mod InBytes
pub mod Ways
