pub mod Comparing
pub mod Keeping
pub mod Finding
pub mod Mentioning
