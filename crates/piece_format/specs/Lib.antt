pub mod Shape
pub mod Cells
pub mod Words
pub mod Reading
pub mod Bytes
pub mod Broken
pub mod Encoding
pub mod Checking
