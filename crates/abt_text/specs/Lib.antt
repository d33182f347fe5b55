pub mod Text
pub mod Streams
pub mod Words
pub mod FirstFault
