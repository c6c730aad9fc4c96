pub mod Lists
pub mod Every
pub mod Frames
pub mod Queries
pub mod Victims
pub mod Bounds
