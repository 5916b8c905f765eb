pub mod Operations
pub mod Instructions
pub mod Meaning
pub mod Spots
pub mod Reads
pub mod Examples
