pub mod Shown
pub mod Names
pub mod Why
pub mod Calls
pub mod Places
