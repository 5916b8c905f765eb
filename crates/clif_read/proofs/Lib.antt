pub mod AttributeLaws
pub mod SignatureLaws
pub mod DeclarationLaws
pub mod HeadLaws
pub mod Ends
pub mod LineEnds
pub mod LineLaws
pub mod LineLoop
pub mod DeclLoop
pub mod ModuleLaws
pub mod Whole
pub mod Functions
pub mod Alike
pub mod Given
pub mod LetterInsts
pub mod LetterLines
mod DeclarationExamples
pub mod LetterModule
pub mod LetterAttributes
mod LineExamples
pub mod ModuleMarks
pub mod ModuleFormed
pub mod Within
