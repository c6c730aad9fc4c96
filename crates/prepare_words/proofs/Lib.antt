mod Asking
mod Cuts
mod Digits
mod Growing
mod Outcomes
mod Steps
