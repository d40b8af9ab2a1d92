pub mod Seats
pub mod Both
pub mod Moves
