pub mod Turning
pub mod Jumps
pub mod Translations
pub mod Once
