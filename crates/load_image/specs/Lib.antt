pub mod Image
pub mod Kept
