pub mod SourceView
pub mod Calls
pub mod SourceFacts
pub mod Parts
