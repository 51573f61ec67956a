pub mod Origins
pub mod Chains
pub mod Claims
