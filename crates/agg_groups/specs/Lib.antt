pub mod Running
pub mod Groups
pub mod Table
pub mod Blocks
