pub mod Judged
pub mod Counted
