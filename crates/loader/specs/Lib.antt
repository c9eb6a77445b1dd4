pub mod Loading
pub mod Refusals
