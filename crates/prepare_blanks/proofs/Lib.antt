pub mod Quotes
pub mod Reading
