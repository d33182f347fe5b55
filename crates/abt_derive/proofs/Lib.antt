pub mod Lists
pub mod Parting
pub mod Growing
pub mod Telling
pub mod Serving
pub mod Crashing
