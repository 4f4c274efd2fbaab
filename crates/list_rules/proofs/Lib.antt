pub mod Fields
pub mod Ranges
pub mod Lent
pub mod Shape
pub mod ComponentLine
