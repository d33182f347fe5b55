pub mod Emitted
pub mod Indexed
