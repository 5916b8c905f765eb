pub mod Bare
pub mod Defining
pub mod RawOf
pub mod ReadsBack
