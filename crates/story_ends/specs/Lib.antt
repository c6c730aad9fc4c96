pub mod Going
pub mod Ending
pub mod Frames
pub mod Scenes
pub mod Telling
