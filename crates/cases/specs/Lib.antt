pub mod Number
pub mod Ends
pub mod Find
