pub mod Replayed
pub mod Before
pub mod Roots
pub mod Places
pub mod Trees
