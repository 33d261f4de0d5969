pub mod Computes
pub mod Cases
pub mod Table
pub mod Tests
pub mod Reach
pub mod Once
