pub mod Faults
pub mod Whole
pub mod Memory
