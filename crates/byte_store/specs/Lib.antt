pub mod Cells
pub mod Bytes
