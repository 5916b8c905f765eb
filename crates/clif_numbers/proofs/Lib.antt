pub mod Blocks
pub mod Left
pub mod PlacesLemmas
pub mod Ranges
