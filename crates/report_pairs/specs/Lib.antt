pub mod Facts
pub mod Laid
pub mod Pairs
pub mod Sound
pub mod Threaded
pub mod Walk
