pub mod Arguments
pub mod Arms
pub mod Elements
pub mod Linked
pub mod Reached
