pub mod Reads
pub mod Stations
pub mod Scans
pub mod Answers
pub mod Loading
pub mod Rounds
