pub mod Written
pub mod Quoted
pub mod Spelling
pub mod SpelledWords
pub mod SpelledTokens
pub mod SpelledConditions
pub mod SpelledQueries
