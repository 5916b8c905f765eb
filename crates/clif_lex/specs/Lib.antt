pub mod Bytes
pub mod Numbers
pub mod Spans
pub mod Lexing
pub mod Places
pub mod Spelling
pub mod Stretches
pub mod Faults
