pub mod Elements
pub mod Listed
pub mod Sides
