pub mod Copied
pub mod Ending
pub mod LastBody
pub mod TailCall
pub mod Tried
pub mod TriedParts
pub mod TryCallSite
