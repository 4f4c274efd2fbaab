pub mod Checks
pub mod Shaped
