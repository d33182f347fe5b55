mod Places
mod Quotients
mod Scales
mod ReadBack
mod Doubted
