pub mod Kept
pub mod Hops
pub mod Index
pub mod FactIndex
