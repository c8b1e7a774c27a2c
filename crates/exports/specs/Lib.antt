pub mod Calls
pub mod Clocks
