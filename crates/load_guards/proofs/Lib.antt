pub mod Foreign
pub mod Held
pub mod Licensing
pub mod Resolving
pub mod Rows
pub mod Stored
pub mod Words
