pub mod Label
pub mod Claims
pub mod Follow
pub mod Same
pub mod Ways
