pub mod All
pub mod Promise
