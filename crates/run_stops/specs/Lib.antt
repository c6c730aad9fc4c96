pub mod Stops
pub mod Outcomes
