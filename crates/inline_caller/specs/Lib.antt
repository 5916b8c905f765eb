pub mod Replacing
pub mod Prepared
pub mod Standing
pub mod Laws
