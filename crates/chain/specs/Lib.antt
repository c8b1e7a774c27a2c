pub mod Chain
pub mod Of
pub mod Transaction
pub mod Laws
pub mod Polls
pub mod InTurn
