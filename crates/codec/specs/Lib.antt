pub mod Bytes
pub mod Stores
