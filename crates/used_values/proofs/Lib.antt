pub mod Walks
pub mod Ranged
pub mod Using
pub mod Passing
