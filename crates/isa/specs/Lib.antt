pub mod Table
pub mod Drawing
pub mod Control
pub mod Reading
pub mod Writing
pub mod Number
pub mod Width
