pub mod Writing
pub mod Endings
pub mod Given
pub mod Loop
