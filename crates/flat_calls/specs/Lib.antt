pub mod Table
pub mod Opening
pub mod Text
