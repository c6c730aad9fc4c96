pub mod Pins
pub mod Tables
pub mod Rows
pub mod Framed
pub mod Blocks
