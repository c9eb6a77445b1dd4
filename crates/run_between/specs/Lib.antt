pub mod Extended
pub mod Running
pub mod Taking
