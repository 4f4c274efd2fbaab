pub mod Shanghai
pub mod Places
pub mod Fields
pub mod Replies
pub mod Reading
pub mod Writing
