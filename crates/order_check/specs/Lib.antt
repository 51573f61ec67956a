pub mod Given
pub mod Failed
