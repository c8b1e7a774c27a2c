pub mod Bits
pub mod Configure
