mod ArrivalLemmas
mod BurstLemmas
mod Spacings
mod RemovalLemmas
mod TableLemmas
pub mod Lives
