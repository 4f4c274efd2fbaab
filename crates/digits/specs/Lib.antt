pub mod Bytes
pub mod Digits
pub mod Written
pub mod Signed
pub mod Fits
