pub mod ByKind
pub mod Running
pub mod Entry
pub mod Polls
pub mod InTurn
pub mod Instances
pub mod Never2
pub mod Unused
