pub mod Rising
pub mod Encoding
pub mod Pages
mod WorkedAnswers
