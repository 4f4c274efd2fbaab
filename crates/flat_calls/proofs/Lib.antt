pub mod Openings
pub mod Texts
pub mod Tables
mod Parts
