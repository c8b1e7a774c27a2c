pub mod Calls
pub mod Does
pub mod From
pub mod Refused
pub mod Limits
pub mod Settled
pub mod Leaves
