pub mod Chosen
pub mod Rows
