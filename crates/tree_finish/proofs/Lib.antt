pub mod Flags
pub mod Compaction
pub mod Finished
