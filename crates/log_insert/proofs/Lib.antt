pub mod Ranked
pub mod Rising
pub mod Merged
pub mod Ordered
