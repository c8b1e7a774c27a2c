pub mod Mode
pub mod Of
pub mod Leaves
