pub mod Numbers
pub mod Emulator
pub mod Link
