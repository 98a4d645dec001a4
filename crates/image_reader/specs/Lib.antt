pub mod Private
pub mod Reader
