pub mod Transfer
pub mod Own
pub mod Settled
