pub mod Machine
pub mod Callable
pub mod Claim
pub mod Runs
pub mod Meeting
pub mod Careful
