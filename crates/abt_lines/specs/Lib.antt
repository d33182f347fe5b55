pub mod Lines
pub mod Runs
pub mod Served
pub mod Stopped
pub mod Fed
