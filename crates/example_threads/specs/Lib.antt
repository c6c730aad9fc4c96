pub mod Diaries
pub mod Pairs
