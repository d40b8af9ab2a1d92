pub mod Sending
pub mod Exchanging
pub mod Fetching
mod Passing
mod Keeping
