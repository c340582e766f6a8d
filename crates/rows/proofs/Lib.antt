pub mod Guards
pub mod Rows
