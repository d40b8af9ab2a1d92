pub mod Replies
pub mod OneHost
pub mod Plain
pub mod Endings
