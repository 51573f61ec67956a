pub mod Examples
pub mod FoldExamples
