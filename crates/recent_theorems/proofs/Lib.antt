pub mod Checks
pub mod Matches
pub mod None
pub mod Steps
pub mod Runs
pub mod Calls
pub mod Worked
