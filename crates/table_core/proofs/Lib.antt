pub mod Columns
pub mod Cutting
pub mod Nulls
pub mod Rising
pub mod Lists
pub mod Writing
pub mod Fitting
