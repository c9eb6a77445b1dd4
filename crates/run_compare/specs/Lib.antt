pub mod Compare
pub mod Gifts
pub mod Notes
pub mod Same
