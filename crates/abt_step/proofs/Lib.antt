mod Arriving
mod Asking
mod Closing
mod Numbered
mod Pairs
mod Possibles
mod Read
mod Stepping
mod Taking
pub mod Unserved
