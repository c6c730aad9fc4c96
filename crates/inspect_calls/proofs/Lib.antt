mod Given
pub mod Cutting
