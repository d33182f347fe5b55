pub mod Records
pub mod Runs
pub mod Served
pub mod Fed
