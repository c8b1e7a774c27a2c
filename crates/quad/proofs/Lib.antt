pub mod Framed
pub mod Quad
pub mod Standard
pub mod Leaves
