pub mod Outcomes
pub mod Printed
pub mod Answers
pub mod Output
pub mod Refusals
pub mod Counts
