pub mod Converting
pub mod Groups
pub mod Lowering
pub mod Once
