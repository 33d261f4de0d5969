pub mod Moves
pub mod Methods
pub mod Once
