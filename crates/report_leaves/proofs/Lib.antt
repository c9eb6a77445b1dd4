pub mod Copying
pub mod LeafWrites
