pub mod Outcome
pub mod Read
pub mod Fold
pub mod Examples
pub mod FoldExamples
