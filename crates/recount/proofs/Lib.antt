pub mod Paired
pub mod Calls
pub mod Recount
pub mod Longest
