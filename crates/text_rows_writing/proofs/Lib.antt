pub mod Stretches
pub mod Columns
pub mod Rows
pub mod Turns
