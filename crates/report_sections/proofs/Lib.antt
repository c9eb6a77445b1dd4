pub mod GoalLines
pub mod Lines
pub mod Restarting
pub mod SectionCounts
pub mod SectionWrites
pub mod ValueLines
pub mod WrittenGoals
pub mod WrittenLines
