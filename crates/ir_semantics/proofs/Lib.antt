pub mod Arguments
pub mod Importing
pub mod Ranges
pub mod SafetyPlaces
pub mod SafetyRuns
pub mod SafetyStands
pub mod SafetySteps
pub mod SafetyTypes
