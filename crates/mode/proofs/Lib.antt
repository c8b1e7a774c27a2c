pub mod Mode
pub mod Leaves
