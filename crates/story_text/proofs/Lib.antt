pub mod Cuts
pub mod Digits
pub mod LineReading
pub mod Lines
