pub mod Meanwhile
pub mod Resting
mod Stories
mod Faults
mod Keeping
mod Causing
mod Choices
mod Quiet
mod Beginning
mod Finishing
mod Sizes
mod Taking
mod Founding
mod Rows
