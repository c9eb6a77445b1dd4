pub mod Answers
pub mod Kept
pub mod Loop
pub mod Rows
pub mod Shapes
