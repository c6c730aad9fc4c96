pub mod Terms
pub mod Choices
pub mod Rules
pub mod Ranks
pub mod Counts
pub mod Phases
pub mod Ruling
pub mod Seen
