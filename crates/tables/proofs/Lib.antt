pub mod Filling
pub mod Stops
pub mod Headers
pub mod Partners
pub mod Once
