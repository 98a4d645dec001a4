pub mod Crossings
pub mod Logs
pub mod LogBack
