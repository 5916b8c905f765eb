mod Blocks
pub mod Bytes
mod Constants
mod Decimals
mod Declarations
mod Defined
mod Example
mod Flags
mod Forms
mod Fronts
mod Functions
mod Insts
mod Lines
pub mod Lists
mod Modules
mod NumberTokens
mod Operands
mod Parts
mod Signatures
mod Sizes
mod Slots
mod Spellable
mod Spelled
mod Stems
mod Stretches
mod Terms
mod Told
