pub mod JournalSteps
pub mod JournalDeeds
pub mod SourceMoves
pub mod PortMoves
pub mod ToldPasts
pub mod OctetsRead
