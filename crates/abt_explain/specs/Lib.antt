pub mod Answers
pub mod Told
pub mod Written
pub mod Explained
