pub mod Best
pub mod Choice
pub mod Enough
pub mod Steps
pub mod Over
pub mod Framing
pub mod Agreeing
pub mod Told
