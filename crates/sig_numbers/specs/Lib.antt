pub mod Index
pub mod Tables
pub mod Known
