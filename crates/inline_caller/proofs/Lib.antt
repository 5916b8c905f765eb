pub mod Counted
pub mod PreparedCalls
pub mod ReplacedCalls
pub mod Indexed
pub mod Definitions
pub mod Sited
