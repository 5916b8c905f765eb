pub mod Gathered
pub mod Held
pub mod Plans
pub mod Reading
pub mod Turns
