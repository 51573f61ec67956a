pub mod Standing
pub mod States
