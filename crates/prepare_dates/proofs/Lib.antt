mod Digits
pub mod Back
mod Staying
