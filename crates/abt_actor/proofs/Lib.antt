mod Emitting
mod Asking
