pub mod Columns
pub mod Dates
pub mod Made
pub mod Names
pub mod Numbers
pub mod Outcome
pub mod Records
pub mod Tally
