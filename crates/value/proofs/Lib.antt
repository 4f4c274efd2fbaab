pub mod Sign
pub mod Laws
pub mod Answers
