pub mod Sightings
pub mod Grounds
pub mod Reasons
pub mod Explanation
pub mod Ending
