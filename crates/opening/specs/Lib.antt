pub mod Steps
pub mod Call
pub mod Laws
pub mod Settled
