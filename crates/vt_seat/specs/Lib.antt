pub mod Wires
pub mod State
pub mod Follows
pub mod Seats
pub mod Blobs
pub mod Saving
pub mod Moves
