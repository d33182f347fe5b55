pub mod Holding
pub mod Tallies
