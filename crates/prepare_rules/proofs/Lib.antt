pub mod Back
pub mod Choosing
pub mod Dated
pub mod Fields
pub mod Going
pub mod Shape
pub mod Spelled
