pub mod Few
pub mod Names
