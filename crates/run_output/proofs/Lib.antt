pub mod Columns
pub mod ItemKinds
pub mod Prints
pub mod Counts
pub mod Alone
