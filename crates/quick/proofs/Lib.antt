pub mod Patterns
pub mod Sets
pub mod Plains
pub mod Guards
