pub mod LittleEndian
pub mod Numbers
pub mod Access
pub mod Effects
pub mod Registers
