pub mod Bytes
pub mod Chain
pub mod Once
