pub mod Judged
pub mod Statements
