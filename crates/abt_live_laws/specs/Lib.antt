pub mod Journals
pub mod Deeds
pub mod Machine
pub mod Ports
pub mod Pasts
pub mod Octets
