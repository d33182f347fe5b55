mod Pieces
mod Fed
