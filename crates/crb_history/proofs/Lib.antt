mod WorkedHistories
pub mod Bytes
pub mod Phases
pub mod CancelledBeforeClaim
mod Numbers
mod Lost
pub mod Continuing
