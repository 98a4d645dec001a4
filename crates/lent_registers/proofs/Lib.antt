pub mod Bytes
pub mod Rows
pub mod Changed
pub mod Mapped
pub mod Loops
pub mod Whole
pub mod Referred
