pub mod Alike
pub mod Once
