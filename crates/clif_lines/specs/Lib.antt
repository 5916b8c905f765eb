pub mod Keeping
pub mod WordNumbers
pub mod WordRenaming
