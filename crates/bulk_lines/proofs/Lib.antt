pub mod Lines
mod Counts
