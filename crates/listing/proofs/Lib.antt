pub mod Printing
pub mod Lengths
pub mod Example
pub mod Converting
pub mod Room
pub mod Once
