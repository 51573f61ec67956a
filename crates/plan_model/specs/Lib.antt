pub mod Plan
pub mod Feed
pub mod Examples
