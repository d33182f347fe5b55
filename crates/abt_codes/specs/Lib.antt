pub mod Quantity
pub mod Durations
pub mod Nearest
pub mod Doubts
pub mod CodeText
pub mod CodeObjects
pub mod Message
pub mod Printed
