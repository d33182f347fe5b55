pub mod Messages
pub mod Followed
pub mod Following
pub mod Arriving
pub mod Capacities
