pub mod Cuts
pub mod Digits
pub mod Nearest
pub mod Worth
