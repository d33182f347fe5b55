pub mod Rate
pub mod Extremes
pub mod Code
pub mod Limits
