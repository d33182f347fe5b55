pub mod Requests
pub mod Keeping
pub mod Source
pub mod Hop
pub mod Sent
pub mod Cells
