pub mod Sendings
pub mod Serving
mod Arriving
mod Happening
pub mod Standings
pub mod Capping
mod Pushing
pub mod Openings
mod Final
mod Touching
mod Tallying
mod Beginning
mod Noting
mod Stepping
pub mod Admitting
mod Sounding
mod Looking
mod Judging
