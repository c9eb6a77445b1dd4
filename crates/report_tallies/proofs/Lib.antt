pub mod FirstLines
pub mod GoalPlaces
pub mod Origins
pub mod OwnGoals
