pub mod Decimal
pub mod Written
pub mod Chains
pub mod Lines
