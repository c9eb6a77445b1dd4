pub mod Build
pub mod Reducing
