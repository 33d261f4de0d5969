pub mod Deeds
pub mod Running
pub mod Tables
pub mod Checking
pub mod Once
