pub mod Records
pub mod Again
pub mod Runs
pub mod Passed
pub mod Written
pub mod Rewritten
pub mod Sab1
