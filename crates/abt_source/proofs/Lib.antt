pub mod Emissions
pub mod Asks
