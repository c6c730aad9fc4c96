pub mod Stories
mod Tickets
pub mod Passing
mod Turning
mod Rounding
mod Scanning
mod Out
