pub mod Comparing
pub mod Groups
pub mod Separated
pub mod Spelled
pub mod Spellings
