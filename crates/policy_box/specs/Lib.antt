pub mod First
pub mod Next
pub mod Loads
