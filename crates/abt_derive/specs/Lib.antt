pub mod Completes
pub mod Derives
pub mod Lists
pub mod Serves
pub mod Tells
pub mod Walks
pub mod Restarts
