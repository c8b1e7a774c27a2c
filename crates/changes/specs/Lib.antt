pub mod Of
