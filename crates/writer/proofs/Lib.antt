pub mod Lengths
pub mod Named
pub mod Whole
pub mod Once
