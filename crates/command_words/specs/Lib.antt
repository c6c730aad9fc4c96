pub mod Pairs
pub mod Command
pub mod Knows
pub mod Matched
pub mod Options
pub mod Limits
pub mod Views
