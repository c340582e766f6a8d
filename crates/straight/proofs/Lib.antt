pub mod Scan
pub mod Reflection
pub mod Whole
pub mod Verdicts
