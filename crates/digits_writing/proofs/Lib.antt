pub mod Sizes
pub mod Ending
