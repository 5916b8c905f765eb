pub mod Numbering
pub mod TextTree
pub mod Text
pub mod TextDeclarations
pub mod TextInstructions
pub mod Words
pub mod Writable
