pub mod Rules
pub mod Kinds
pub mod Check
pub mod Record
pub mod Laws
pub mod Settled
