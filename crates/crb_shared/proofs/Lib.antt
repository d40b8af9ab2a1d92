pub mod Appending
pub mod Frame
pub mod GuestSteps
pub mod WorkerSteps
pub mod EndSteps
