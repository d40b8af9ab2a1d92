pub mod Bus
pub mod Saving
pub mod State
pub mod Pairs
pub mod Moving
pub mod Worlds
pub mod Placement
pub mod Movable
