pub mod Put
pub mod Flat
pub mod Ready
