pub mod Shared
pub mod Creation
pub mod Redemption
pub mod Theorems
