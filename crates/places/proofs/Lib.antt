pub mod Forms
pub mod Groups
pub mod Once
pub mod Partners
pub mod Places
pub mod Writing
