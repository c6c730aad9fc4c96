pub mod Days
pub mod Written
