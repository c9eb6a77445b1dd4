pub mod Guarding
pub mod Single
