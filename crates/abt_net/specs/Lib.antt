pub mod Topology
pub mod Paths
pub mod Faults
pub mod Search
pub mod Places
