pub mod Faults
pub mod Twins
pub mod Laws
pub mod Found
pub mod Refusal
pub mod Accepting
pub mod RowTypes
pub mod Kinds
