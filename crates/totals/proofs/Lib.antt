pub mod Top
pub mod Cut
pub mod Pass
pub mod Sums
