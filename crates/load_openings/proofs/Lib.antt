pub mod Begins
pub mod Expected
pub mod Given
pub mod GoalNames
pub mod Moves
pub mod Opening
pub mod Passing
pub mod Readers
