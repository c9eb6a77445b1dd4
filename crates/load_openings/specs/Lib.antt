pub mod Begun
pub mod Openings
pub mod Reading
