pub mod Starts
pub mod Uses
