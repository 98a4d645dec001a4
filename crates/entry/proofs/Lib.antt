pub mod Refusals
pub mod Endings
pub mod ImageRuns
pub mod Outcomes
pub mod Entries
