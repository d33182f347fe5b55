mod Closing
mod Decoding
mod Digits
mod Served
mod ByObjects
mod Unserved
mod Words
