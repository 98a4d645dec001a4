pub mod Visible
pub mod Stores
pub mod Isolation
pub mod Statements
