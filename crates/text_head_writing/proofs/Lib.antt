pub mod Sizes
pub mod Write
