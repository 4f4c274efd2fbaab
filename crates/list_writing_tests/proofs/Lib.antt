pub mod Heads
pub mod Sizes
