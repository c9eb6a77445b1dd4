pub mod Compounds
pub mod Followed
pub mod Following
pub mod Keeping
