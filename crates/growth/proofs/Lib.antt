pub mod Lengths
pub mod Once
