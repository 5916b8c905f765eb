pub mod Blocks
pub mod Counts
pub mod Naming
pub mod Places
pub mod Sizes
pub mod Steps
pub mod Replaceable
pub mod Taking
