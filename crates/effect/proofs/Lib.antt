pub mod Exits
pub mod Touched
