pub mod Sound
pub mod Steps
pub mod Lives
pub mod Asked
pub mod Carried
pub mod Whole
pub mod Stories
