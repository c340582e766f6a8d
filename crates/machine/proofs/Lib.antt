pub mod Valid
pub mod Steps
pub mod Touches
pub mod Division
pub mod Runs
pub mod Resumes
