pub mod Modes
pub mod Leaves
