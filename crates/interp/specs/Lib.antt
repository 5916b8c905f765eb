pub mod Entries
pub mod Lines
pub mod Linking
pub mod Outcome
pub mod State
