pub mod Limit
pub mod Settings
