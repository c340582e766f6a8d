pub mod Words
pub mod Sums
