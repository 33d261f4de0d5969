pub mod Promises
pub mod Audit
pub mod Place
pub mod Items
