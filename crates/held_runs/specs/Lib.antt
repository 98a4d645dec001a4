pub mod Opened
pub mod Runs
pub mod Private
pub mod Statements
