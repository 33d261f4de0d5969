pub mod Names
pub mod Once
