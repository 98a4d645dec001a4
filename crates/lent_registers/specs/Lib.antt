pub mod Columns
pub mod Lent
pub mod Private
