pub mod Logs
pub mod Files
