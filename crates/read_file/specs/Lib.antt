pub mod From
pub mod Told
