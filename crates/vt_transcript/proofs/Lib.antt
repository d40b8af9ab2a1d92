mod WorkedTranscripts
pub mod WithoutFault
mod Unlost
mod Rejoining
mod Ending
