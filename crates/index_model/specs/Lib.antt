-- The ordered index: entries by folder and label.
pub mod Index
pub mod Change
pub mod Acting
pub mod Kept
pub mod Examples
