pub mod Sound
pub mod Examples
