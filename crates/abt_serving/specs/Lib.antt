pub mod Messages
pub mod Followed
pub mod Arriving
