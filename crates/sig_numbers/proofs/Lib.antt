pub mod Indexed
pub mod Tabled
