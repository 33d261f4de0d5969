pub mod Bytes
pub mod Forms
pub mod Names
pub mod Reading
pub mod Grammar
pub mod Writing
pub mod Answers
