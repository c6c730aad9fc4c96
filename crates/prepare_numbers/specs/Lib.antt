pub mod Plain
pub mod Rounding
pub mod Spells
pub mod Values
