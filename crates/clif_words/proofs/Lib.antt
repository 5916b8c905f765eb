mod Decimals
pub mod Tags
pub mod Printed
pub mod Places
mod Values
pub mod TextTokens
pub mod Codes
pub mod OpcodePlaces
pub mod OpcodesOf
pub mod Joined
