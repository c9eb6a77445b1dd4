pub mod Answers
pub mod Places
pub mod Rules
pub mod Tables
