pub mod Machine
pub mod Words
