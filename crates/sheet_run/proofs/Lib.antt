pub mod Sheets
pub mod Entries
pub mod Again
pub mod Refused
pub mod Instances
