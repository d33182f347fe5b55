mod Wrote
mod Letters
