pub mod Parts
pub mod Picked
pub mod Jobs
pub mod Workers
pub mod Crews
pub mod Works
