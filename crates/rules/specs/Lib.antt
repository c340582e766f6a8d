pub mod Not
pub mod Offset
pub mod Rules
