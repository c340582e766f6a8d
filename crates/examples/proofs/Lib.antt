pub mod Begun
pub mod Cases
pub mod Starts
pub mod Escapes
pub mod Sample
