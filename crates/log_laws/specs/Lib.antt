pub mod Members
pub mod Sound
