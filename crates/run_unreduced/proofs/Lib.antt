pub mod Failing
pub mod FreePlaces
pub mod Gathering
pub mod Joining
pub mod KeepingEnds
pub mod Unclaimed
pub mod WaitingStep
