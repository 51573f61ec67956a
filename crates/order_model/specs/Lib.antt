pub mod Order
pub mod Examples
