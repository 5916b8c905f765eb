pub mod Drawn
pub mod Follow
