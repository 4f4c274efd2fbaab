pub mod Going
pub mod Whole
pub mod Sizes
pub mod Days
