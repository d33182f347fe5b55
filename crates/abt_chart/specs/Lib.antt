pub mod Messages
pub mod Places
pub mod Tellings
pub mod Arrows
pub mod Before
pub mod Behind
pub mod Frames
pub mod Charts
