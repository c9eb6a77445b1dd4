pub mod Log
pub mod Ring
