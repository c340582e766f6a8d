pub mod Profile
pub mod Bound
