pub mod Forward
pub mod Bounds
pub mod Again
pub mod Whole
