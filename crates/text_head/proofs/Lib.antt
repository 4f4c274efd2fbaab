pub mod Lines
pub mod Shape
pub mod Fields
