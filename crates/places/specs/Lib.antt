pub mod Stages
pub mod Groups
pub mod Writing
