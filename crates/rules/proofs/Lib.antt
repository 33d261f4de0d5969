pub mod Computes
pub mod Cases
pub mod Beside
pub mod Table
