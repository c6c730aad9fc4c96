pub mod Runs
pub mod Quotes
pub mod Numbers
pub mod Pieces
pub mod TokenLists
pub mod Parts
