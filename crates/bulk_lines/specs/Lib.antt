pub mod Numbers
pub mod Commands
pub mod Generator
pub mod Summaries
