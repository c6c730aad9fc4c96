mod Attaching
mod Using
mod Picking
mod Placing
