pub mod Runs
pub mod SegmentRows
pub mod DomainRows
pub mod Stores
pub mod Judged
