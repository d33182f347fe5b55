pub mod Disk
pub mod Calls
pub mod Slots
pub mod Stores
