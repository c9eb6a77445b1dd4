pub mod Finishing
pub mod FrontGoal
pub mod Going
pub mod GoingOn
