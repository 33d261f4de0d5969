pub mod Text
pub mod Printing
