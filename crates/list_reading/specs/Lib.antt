pub mod Outcome
pub mod Stages
