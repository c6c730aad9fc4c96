pub mod Delivered
pub mod Orders
pub mod Stories
pub mod Numbers
pub mod Held
pub mod Matched
pub mod Parts
pub mod Batches
pub mod Written
pub mod Ending
mod Gathering
mod Reading
mod Taking
mod Registered
mod Coming
mod Resting
mod Serving
mod Seats
mod Endings
mod Planned
mod Finishing
mod Working
