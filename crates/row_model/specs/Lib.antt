pub mod Row
pub mod Examples
