-- Examples of plans that take longer to compute.
pub mod Examples
