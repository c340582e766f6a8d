pub mod Guards
pub mod Targets
