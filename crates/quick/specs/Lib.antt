pub mod Set
pub mod Plain
