pub mod Choosing
pub mod Chosen
pub mod Rounds
pub mod Leading
pub mod Reaching
