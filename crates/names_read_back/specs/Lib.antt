pub mod Canonical
pub mod ReadNames
