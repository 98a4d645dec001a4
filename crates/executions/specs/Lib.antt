pub mod Called
pub mod Statements
