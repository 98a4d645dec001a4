pub mod Cycles
pub mod Jumps
pub mod Notes
