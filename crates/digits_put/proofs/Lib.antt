pub mod Last
pub mod Whole
