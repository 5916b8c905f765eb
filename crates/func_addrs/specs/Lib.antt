pub mod Listing
pub mod Mentions
pub mod Order
