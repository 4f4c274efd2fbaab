pub mod Tables
pub mod Well
pub mod Dates
pub mod Placed
