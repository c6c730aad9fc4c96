pub mod Fits
pub mod Begun
