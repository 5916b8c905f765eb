pub mod Tags
pub mod Parts
pub mod Answered
pub mod Before
pub mod Tokens
pub mod Numbers
pub mod Examples
pub mod Places
