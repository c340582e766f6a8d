pub mod Check
pub mod Said
pub mod Scan
pub mod Lawful
pub mod Cells
pub mod Before
pub mod Refusal
pub mod Examples
