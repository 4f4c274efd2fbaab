pub mod Moved
pub mod Stock
pub mod Sides
pub mod Turns
pub mod Whole
pub mod Ready
