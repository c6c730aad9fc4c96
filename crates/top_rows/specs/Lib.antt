pub mod Standing
pub mod Top
pub mod Blocks
