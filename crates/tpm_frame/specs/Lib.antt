pub mod Numbers
pub mod Frame
pub mod Frames
pub mod Sizes
