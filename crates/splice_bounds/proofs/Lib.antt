pub mod Bounds
pub mod Counts
pub mod Ends
pub mod Growing
