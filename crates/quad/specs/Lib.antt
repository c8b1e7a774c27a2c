pub mod Quad
pub mod Frames
pub mod Standard
pub mod Leaves
