pub mod Equal
pub mod Ends
pub mod Laws
pub mod Starts
