pub mod Passes
pub mod Sources
pub mod Places
pub mod Rights
