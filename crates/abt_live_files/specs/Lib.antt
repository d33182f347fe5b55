pub mod Words
pub mod Opened
pub mod Clock
pub mod SourceServed
pub mod Served
