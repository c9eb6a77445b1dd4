pub mod AllMet
pub mod Asking
pub mod Ranks
