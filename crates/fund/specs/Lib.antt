pub mod Fund
pub mod Components
