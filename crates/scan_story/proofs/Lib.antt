pub mod Counts
pub mod Growing
pub mod Prefixes
pub mod Chunks
pub mod Close
