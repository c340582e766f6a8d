pub mod Lookup
pub mod Places
pub mod Reading
