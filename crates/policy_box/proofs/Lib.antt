mod Elevators
mod Firsts
mod Goings
