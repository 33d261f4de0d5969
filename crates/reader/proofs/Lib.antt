pub mod Lookups
pub mod Settled
pub mod Loop
pub mod Pages
pub mod Whole
pub mod Once
