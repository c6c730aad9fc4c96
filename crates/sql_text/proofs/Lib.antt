pub mod Rules
pub mod Numerals
pub mod Tokens
pub mod ReadConditions
pub mod ReadLists
pub mod ReadThings
pub mod ReadQueries
pub mod ReadTexts
