pub mod Handed
pub mod Laws
