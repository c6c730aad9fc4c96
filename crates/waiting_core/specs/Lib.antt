pub mod Put
pub mod Lobby
pub mod Bell
pub mod Count
pub mod Whole
pub mod Turns
