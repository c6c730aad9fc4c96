pub mod Depots
pub mod Loads
pub mod Plain
pub mod Sound
pub mod Turns
pub mod Waiting
