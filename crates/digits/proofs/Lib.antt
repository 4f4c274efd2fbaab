pub mod Read
pub mod Put
pub mod Count
pub mod Sign
pub mod Write
pub mod Trip
pub mod Bytes
pub mod Signed
