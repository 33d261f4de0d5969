pub mod Signs
pub mod Once
