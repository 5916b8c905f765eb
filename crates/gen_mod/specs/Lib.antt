pub mod Draws
pub mod Shapes
pub mod Generated
