pub mod Declarations
pub mod Faults
pub mod Heads
pub mod Laws
pub mod Stretches
