pub mod Table
pub mod Sound
pub mod Orders
pub mod Text
