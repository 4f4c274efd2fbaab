pub mod Laws
pub mod Flat
pub mod Sound
