pub mod First
pub mod Pieces
pub mod Words
pub mod Columns
