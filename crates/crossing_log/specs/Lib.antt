pub mod Crossings
pub mod Log
