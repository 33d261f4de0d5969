pub mod Families
pub mod Starts
