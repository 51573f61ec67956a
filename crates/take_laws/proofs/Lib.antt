pub mod Take
pub mod Union
pub mod Held
pub mod Arrival
pub mod Claims
