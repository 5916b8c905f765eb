mod Agreeing
mod CanonTypes
mod Canonical
mod Constants
mod Declarations
mod Example
mod Insts
pub mod Names
pub mod NoRepeats
pub mod Numbers
mod Opcodes
mod Operands
mod ResultTypes
mod Spotless
pub mod TextMeans
mod Types
