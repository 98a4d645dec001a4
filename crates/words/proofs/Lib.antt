pub mod Fields
pub mod Integers
pub mod Masks
pub mod RoundTrips
pub mod Results
