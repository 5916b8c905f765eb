pub mod Addressing
pub mod Running
