pub mod LogLines
pub mod ImageLogs
pub mod LogPrints
