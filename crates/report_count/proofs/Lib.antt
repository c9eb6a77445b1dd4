pub mod CountingWalk
pub mod KeptLengths
pub mod LeafCounts
pub mod Lengths
pub mod Numbering
