pub mod Shown
pub mod Rank
pub mod Marks
pub mod Running
pub mod Folded
pub mod Claims
