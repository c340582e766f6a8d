pub mod Begun
pub mod Cases
pub mod Escapes
pub mod Sample
