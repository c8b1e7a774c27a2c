pub mod Dividers
