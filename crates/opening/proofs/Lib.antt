pub mod Call
pub mod Polls
pub mod Laws
pub mod Settled
