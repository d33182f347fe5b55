pub mod Fitting
pub mod Opened
pub mod Tables
pub mod Promised
pub mod Ended
mod Handed
pub mod Emitted
pub mod Doing
pub mod Hearing
pub mod Running
mod Grown
pub mod Acting
pub mod Closing
pub mod Wounds
