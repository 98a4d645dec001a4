pub mod Rows
pub mod Calls
pub mod Own
pub mod Refusals
pub mod ListReads
pub mod Delegates
pub mod Worked
