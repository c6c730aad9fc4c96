pub mod Rigged
