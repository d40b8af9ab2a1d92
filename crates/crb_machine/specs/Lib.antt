pub mod Phases
pub mod Content
pub mod State
pub mod Model
pub mod Parts
pub mod Steps
pub mod Values
pub mod Over
