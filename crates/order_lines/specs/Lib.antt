pub mod Lines
pub mod Ready
