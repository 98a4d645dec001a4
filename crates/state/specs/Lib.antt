pub mod Record
pub mod Bases
