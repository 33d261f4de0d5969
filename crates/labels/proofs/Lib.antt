pub mod Targets
pub mod Once
