pub mod Accesses
pub mod Bits
pub mod Bus
pub mod Calls
pub mod Sizes
