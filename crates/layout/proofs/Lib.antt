pub mod Sizes
pub mod Kept
