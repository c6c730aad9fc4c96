pub mod Classes
pub mod Keywords
pub mod Pieces
pub mod Statements
pub mod Tokens
