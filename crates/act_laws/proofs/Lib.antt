pub mod Act
pub mod Trees
pub mod Acting
pub mod Strokes
pub mod Claims
