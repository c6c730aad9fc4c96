pub mod Best
pub mod Around
pub mod Least
pub mod Rated
pub mod Victims
