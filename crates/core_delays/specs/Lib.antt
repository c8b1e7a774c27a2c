pub mod Delays
pub mod Due
