pub mod Agreement
pub mod Rule
pub mod Plays
pub mod Steps
pub mod Ends
pub mod Entries
