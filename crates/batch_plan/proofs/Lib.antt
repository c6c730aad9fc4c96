pub mod Rises
pub mod Planned
pub mod Dealt
pub mod Parted
pub mod Adding
