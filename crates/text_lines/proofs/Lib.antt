pub mod Standing
pub mod Opening
