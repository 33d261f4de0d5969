pub mod Rows
pub mod Once
