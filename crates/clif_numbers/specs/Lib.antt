pub mod Placed
pub mod Room
