pub mod Numbers
pub mod Parts
pub mod Streams
pub mod Refusals
pub mod Places
pub mod Headers
