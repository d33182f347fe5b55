mod Differences
mod FaultLines
mod Readings
mod Saying
mod Unables
