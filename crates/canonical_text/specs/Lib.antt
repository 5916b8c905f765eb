pub mod Accepted
pub mod Printed
pub mod Stretches
