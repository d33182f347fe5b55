pub mod Channel
pub mod Message
pub mod Polynomial
pub mod Division
pub mod Layout
pub mod Reading
pub mod Codec
pub mod Damage
