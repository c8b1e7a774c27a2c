pub mod Steps
pub mod Of
