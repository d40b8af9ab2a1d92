pub mod Layouts
pub mod Records
pub mod Restoring
pub mod Rows
