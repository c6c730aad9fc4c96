pub mod Truth
pub mod Zone
pub mod Possible
pub mod Masks
pub mod Ends
pub mod Truths
pub mod Certain
pub mod Found
