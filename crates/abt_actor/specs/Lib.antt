pub mod Commands
pub mod Actor
pub mod Sources
pub mod Facts
pub mod Carrying
