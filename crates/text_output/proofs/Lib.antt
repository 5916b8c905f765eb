pub mod Digits
pub mod Puts
pub mod Sinkless
pub mod Sinks
