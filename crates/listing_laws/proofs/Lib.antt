pub mod Texts
pub mod Lines
pub mod Rows
pub mod Claims
pub mod Forms
pub mod Example
