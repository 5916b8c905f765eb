pub mod Settings
pub mod Options
pub mod Table
pub mod Meaning
pub mod Shown
pub mod Laws
