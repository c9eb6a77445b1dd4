pub mod Sound
pub mod Walked
