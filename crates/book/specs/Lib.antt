pub mod Moved
pub mod Ready
