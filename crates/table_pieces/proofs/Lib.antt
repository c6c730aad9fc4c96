pub mod Below
pub mod Chunks
pub mod Passing
pub mod Storing
pub mod Zoned
