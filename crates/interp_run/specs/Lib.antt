pub mod Addressing
pub mod Answers
pub mod Ready
