pub mod DeadGates
pub mod HeldGates
pub mod Fetches
pub mod Worked
