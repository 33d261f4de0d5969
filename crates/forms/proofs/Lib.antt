pub mod Families
pub mod Starts
pub mod Inside
pub mod Once
