mod Lines
pub mod Runs
mod Pieces
mod Fed
mod Stopped
