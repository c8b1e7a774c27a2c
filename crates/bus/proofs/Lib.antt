pub mod From
pub mod Entry
pub mod Refused
pub mod Limits
pub mod Settled
pub mod Leaves
