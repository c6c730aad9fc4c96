pub mod Scans
pub mod Ahead
pub mod Page
