pub mod Example
pub mod Statements
