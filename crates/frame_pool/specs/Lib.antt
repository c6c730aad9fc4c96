pub mod Views
pub mod Frames
pub mod Steps
pub mod Berths
