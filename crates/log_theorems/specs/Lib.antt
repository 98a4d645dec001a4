pub mod ReadBack
pub mod Statements
