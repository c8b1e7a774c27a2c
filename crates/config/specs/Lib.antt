pub mod Config
pub mod Error
pub mod Laws
pub mod Spi
