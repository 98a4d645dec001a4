pub mod Flag
pub mod Static
pub mod Live
pub mod Reference
pub mod Check
pub mod Made
pub mod Private
