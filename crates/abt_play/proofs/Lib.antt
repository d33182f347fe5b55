pub mod Boxes
pub mod Counted
pub mod Joined
pub mod Staying
pub mod Stages
