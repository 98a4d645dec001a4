pub mod Lists
pub mod Free
pub mod Bounds
pub mod Cycling
pub mod Loops
pub mod Judging
