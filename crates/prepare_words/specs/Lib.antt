pub mod Asked
pub mod Command
pub mod Items
pub mod Reading
pub mod Refusals
pub mod Views
