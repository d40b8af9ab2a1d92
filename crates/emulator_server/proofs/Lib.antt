pub mod Knowing
pub mod Progressing
pub mod Lengths
pub mod Connections
pub mod Once
