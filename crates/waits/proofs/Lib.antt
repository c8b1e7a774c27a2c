pub mod Polling
pub mod Sequence
