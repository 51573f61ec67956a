pub mod States
pub mod Calls
pub mod Behind
pub mod Altered
pub mod Reading
pub mod Merging
pub mod Given
pub mod Keeping
