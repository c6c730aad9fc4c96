pub mod Pins
pub mod Words
pub mod Pushed
pub mod Tables
pub mod Rows
pub mod Slots
pub mod Blocks
