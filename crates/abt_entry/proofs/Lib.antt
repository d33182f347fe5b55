mod Lists
pub mod Adding
pub mod Puts
