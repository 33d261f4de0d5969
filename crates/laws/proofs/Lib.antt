pub mod Records
pub mod Refusals
pub mod Instructions
pub mod Partners
pub mod SecondLevel
pub mod Length
pub mod Fits
pub mod Runs
