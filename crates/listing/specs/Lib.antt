pub mod Text
pub mod Answers
