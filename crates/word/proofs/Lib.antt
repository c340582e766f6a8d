pub mod Bits
pub mod Fields
pub mod Numbers
pub mod Memory
pub mod Words
pub mod Choice
