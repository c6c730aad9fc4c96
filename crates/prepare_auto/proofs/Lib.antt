pub mod Coming
pub mod Keeping
