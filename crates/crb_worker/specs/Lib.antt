pub mod Heads
pub mod Progress
pub mod Wires
pub mod Steps
pub mod Runs
