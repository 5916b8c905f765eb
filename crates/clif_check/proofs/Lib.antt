pub mod Standing
pub mod Stages
pub mod MeantLaws
pub mod HeadLaws
pub mod PartLaws
pub mod FirstFaults
pub mod Faultless
