pub mod Roles
pub mod Once
