pub mod Counts
pub mod SizeAfter
pub mod Laws
pub mod Examples
