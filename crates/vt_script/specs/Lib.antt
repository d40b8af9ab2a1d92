pub mod Numbers
pub mod Script
pub mod Replies
pub mod Drive
pub mod Reading
