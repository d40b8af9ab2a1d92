pub mod Failing
pub mod Prefixes
pub mod CallsInARow
pub mod Layouts
pub mod Numbers
pub mod Streams
pub mod Zeros
pub mod Magics
