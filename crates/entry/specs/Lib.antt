pub mod ImageRun
pub mod Entry
pub mod Statements
