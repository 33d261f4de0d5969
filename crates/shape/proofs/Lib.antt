pub mod Bodies
pub mod Verdicts
pub mod Once
