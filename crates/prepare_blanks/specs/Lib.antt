pub mod Blanks
pub mod Quotes
pub mod Tabs
pub mod Words
