mod Numbers
mod Told
pub mod OneStory
mod Lines
pub mod Licences
mod Dealt
mod Judged
