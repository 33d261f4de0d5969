pub mod Same
pub mod Entries
pub mod Digits
pub mod Found
pub mod Once
