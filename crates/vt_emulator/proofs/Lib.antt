pub mod Frames
pub mod Refusing
pub mod Running
pub mod Hearings
pub mod Closing
pub mod Parts
pub mod Once
