pub mod Within
pub mod Once
