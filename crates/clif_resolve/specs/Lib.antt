pub mod Parts
pub mod FormTypes
pub mod Declaring
pub mod Filling
pub mod Places
