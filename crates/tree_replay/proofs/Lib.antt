pub mod Fitting
pub mod Marks
pub mod Stepping
pub mod Playing
pub mod Sound
pub mod Registers
pub mod Making
