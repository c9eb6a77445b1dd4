pub mod Building
pub mod Index
pub mod Left
