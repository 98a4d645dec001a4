pub mod ArgumentList
