pub mod Csv
pub mod Going
pub mod Walking
