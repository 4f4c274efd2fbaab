pub mod Components
pub mod Account
pub mod Laid
pub mod Records
pub mod Reports
pub mod Stored
pub mod Day
