pub mod Bare
pub mod Bodies
pub mod Lists
pub mod One
pub mod Partly
pub mod Right
pub mod Seen
