pub mod Faults
pub mod Judging
pub mod Shown
pub mod Performing
pub mod Kept
