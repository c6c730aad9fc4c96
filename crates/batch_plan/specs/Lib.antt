pub mod Asked
pub mod Scans
pub mod Setting
pub mod Deal
pub mod Adding
