pub mod Builders
pub mod Faultless
pub mod Lines
pub mod Numbers
