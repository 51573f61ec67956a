pub mod Base
pub mod Examples
