pub mod Begun
pub mod Replies
pub mod ReplyLaws
pub mod ReplyReading
pub mod RequestLaws
pub mod RequestReading
pub mod Requests
