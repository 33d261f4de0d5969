pub mod Steps
pub mod Pages
