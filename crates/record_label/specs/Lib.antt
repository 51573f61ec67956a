pub mod Label
pub mod Follow
