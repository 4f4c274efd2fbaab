pub mod Calls
pub mod Counts
pub mod Reported
pub mod Balanced
