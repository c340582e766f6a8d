pub mod Exit
pub mod Sound
pub mod Touched
