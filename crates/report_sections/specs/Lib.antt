pub mod Sections
pub mod Whole
