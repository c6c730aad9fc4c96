pub mod Cells
pub mod Meaning
pub mod GroupText
pub mod Places
pub mod Rows
pub mod RowText
