pub mod Hashes
pub mod Lists
pub mod NameTable
pub mod Numbering
pub mod Pairs
pub mod Spellings
pub mod Tallies
pub mod VariableTable
