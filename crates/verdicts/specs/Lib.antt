pub mod Refused
pub mod Departures
pub mod Judged
pub mod Tallied
pub mod Laws
