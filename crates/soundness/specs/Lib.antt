pub mod Sound
pub mod Statements
