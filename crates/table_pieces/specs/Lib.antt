pub mod Shaping
pub mod Parcels
pub mod Putting
pub mod Zoning
