mod Actors
mod Listed
