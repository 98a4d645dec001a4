pub mod Tabulate
pub mod Format
pub mod RecordForm
pub mod Statements
