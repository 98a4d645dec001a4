pub mod LogText
pub mod Private
