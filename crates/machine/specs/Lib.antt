pub mod State
pub mod Apply
pub mod Step
pub mod Run
pub mod Resume
pub mod Division
