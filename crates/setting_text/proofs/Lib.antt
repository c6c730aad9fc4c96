pub mod Parts
pub mod Wording
pub mod Keeping
pub mod Same
pub mod Spelling
