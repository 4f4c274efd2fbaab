pub mod Dates
pub mod Tables
pub mod Columns
pub mod Head
pub mod Reading
pub mod Writing
pub mod Well
