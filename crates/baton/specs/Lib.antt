pub mod Shares
pub mod Rule
pub mod Steps
pub mod Passes
pub mod Waiting
pub mod Visits
pub mod Resting
pub mod Ringing
