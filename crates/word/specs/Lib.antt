pub mod Field
pub mod Number
pub mod Bytes
