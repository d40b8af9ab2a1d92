pub mod Digits
pub mod Cuts
pub mod Commands
pub mod Ordinals
pub mod Reading
mod ReadingRows
