pub mod Grammar
pub mod Reading
pub mod Values
pub mod Types
pub mod Numbers
pub mod Names
pub mod Next
pub mod Shown
