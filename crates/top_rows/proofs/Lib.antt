pub mod Exchange
pub mod Before
pub mod Firsts
pub mod Entries
pub mod Stands
pub mod Blocks
