pub mod Costs
pub mod Filled
pub mod Gathering
pub mod InTurn
