pub mod Emulator
pub mod CoreStates
pub mod Inside
