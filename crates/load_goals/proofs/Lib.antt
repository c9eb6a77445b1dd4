pub mod Commas
pub mod GoalLists
pub mod GoalRead
pub mod Ninth
pub mod Partly
