pub mod Settings
pub mod Freedom
pub mod Reading
pub mod Falling
pub mod Stories
pub mod Verdicts
