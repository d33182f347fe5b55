pub mod Decreases
pub mod RoundTrips
pub mod Granting
pub mod Holds
pub mod Playing
