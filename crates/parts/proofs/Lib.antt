pub mod Further
pub mod Once
