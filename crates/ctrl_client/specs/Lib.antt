pub mod Schedules
pub mod Receiving
pub mod Exchange
pub mod Pieces
pub mod Traffic
