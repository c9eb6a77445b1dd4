pub mod Upward
pub mod Writing
