pub mod LastSign
