pub mod Bytes
pub mod Chunk
pub mod Head
pub mod Segment
pub mod Domain
pub mod Image
pub mod Output
