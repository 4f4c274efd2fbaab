pub mod Rows
pub mod Columns
pub mod Sound
pub mod Orders
pub mod AsBefore
pub mod Text
pub mod TextAsBefore
