mod Growing
mod Outcomes
mod Asking
mod Numbers
