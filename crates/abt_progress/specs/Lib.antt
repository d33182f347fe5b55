pub mod Deciding
pub mod Line
pub mod Meter
