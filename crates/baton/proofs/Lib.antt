mod Keeps
mod Endings
mod Counts
mod Rungs
pub mod Turns
pub mod Zips
