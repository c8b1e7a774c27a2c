pub mod Primitive
pub mod Count
pub mod Sequence
pub mod Through
pub mod Makes
pub mod Goes
pub mod Stopped
