pub mod Text
pub mod Run
pub mod Print
pub mod Laws
