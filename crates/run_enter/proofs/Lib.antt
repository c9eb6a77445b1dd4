pub mod Adjoining
pub mod EnterCalls
pub mod Entering
pub mod Starting
pub mod Summing
