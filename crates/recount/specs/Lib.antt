pub mod Recount
pub mod Longest
