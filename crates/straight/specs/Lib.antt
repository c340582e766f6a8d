pub mod Straight
pub mod Check
pub mod Refusal
pub mod Scan
