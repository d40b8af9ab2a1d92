pub mod Moments
pub mod Images
pub mod Slots
pub mod Encoding
pub mod Steps
pub mod Logging
pub mod Lists
pub mod Replays
pub mod Openings
pub mod Runs
mod WorkedEntries
