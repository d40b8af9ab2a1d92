pub mod Bytes
pub mod Snapshot
pub mod Event
pub mod Device
pub mod Cancelling
pub mod Legal
pub mod Counts
pub mod Continued
