pub mod Windows
pub mod Passage
pub mod Policing
pub mod Standing
pub mod Finding
pub mod Refusal
