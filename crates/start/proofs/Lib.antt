pub mod Kept
pub mod Order
pub mod Starts
pub mod Told
