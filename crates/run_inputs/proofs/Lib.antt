mod Wrapping
mod Growing
pub mod Spans
pub mod Generated
pub mod Texts
pub mod Deciding
