pub mod Bodies
pub mod Building
pub mod Deciding
pub mod Midway
pub mod Targets
