pub mod Circle
pub mod Ground
pub mod Search
