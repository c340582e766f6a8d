pub mod Start
pub mod Told
