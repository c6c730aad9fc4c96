pub mod Command
pub mod Windows
pub mod Asked
pub mod Refusals
