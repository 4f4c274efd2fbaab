pub mod Totals
pub mod Sizes
pub mod Front
pub mod Answer
pub mod Filled
