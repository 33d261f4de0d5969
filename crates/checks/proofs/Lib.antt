pub mod Faults
pub mod Once
