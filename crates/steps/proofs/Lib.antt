pub mod Steps
pub mod Once
