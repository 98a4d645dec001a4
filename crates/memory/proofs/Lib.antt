pub mod Answers
pub mod Accesses
