mod Lines
mod Sighted
