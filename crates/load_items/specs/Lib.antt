pub mod Counts
pub mod Judging
pub mod Outcomes
pub mod Refusing
pub mod Rules
