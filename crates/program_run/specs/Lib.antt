pub mod EntryName
pub mod Examples
pub mod RunText
