pub mod Phases
pub mod Bounds
pub mod Entered
pub mod Portions
pub mod Settled
