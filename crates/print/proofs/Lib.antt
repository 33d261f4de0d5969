pub mod Printing
pub mod Decimal
pub mod Forms
pub mod Once
