mod Numbered
mod Read
mod Below
mod Frames
mod Same
mod Noted
mod Next
