pub mod Seats
pub mod Rigs
