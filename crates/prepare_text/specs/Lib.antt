pub mod Source
pub mod Walk
