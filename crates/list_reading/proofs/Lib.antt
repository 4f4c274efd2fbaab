pub mod Replies
pub mod Handed
pub mod Outcomes
