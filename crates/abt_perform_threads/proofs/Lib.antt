mod Lines
mod Counts
mod Ends
mod Runs
mod Woven
mod Kept
