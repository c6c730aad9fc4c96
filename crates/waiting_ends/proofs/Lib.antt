pub mod Totals
pub mod Weights
pub mod Falling
pub mod Steps
pub mod Placing
pub mod Stepping
pub mod Running
