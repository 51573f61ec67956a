pub mod Logs
pub mod Holding
pub mod Events
