pub mod Bits
pub mod Tests
