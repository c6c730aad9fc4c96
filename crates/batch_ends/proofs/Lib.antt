pub mod Plans
pub mod Tables
pub mod Faultless
pub mod Noted
pub mod Results
pub mod Placing
pub mod Sorting
mod Within
