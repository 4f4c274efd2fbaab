pub mod Limits
pub mod Day
