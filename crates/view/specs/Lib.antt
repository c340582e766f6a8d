pub mod View
pub mod Guard
