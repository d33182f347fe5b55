pub mod Lifetime
pub mod Numbers
pub mod Sound
pub mod Sources
