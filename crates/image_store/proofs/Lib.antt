mod Steps
mod Widths
mod Locked
mod Changes
mod Fillings
mod Unlikes
mod Refusals
mod Placings
pub mod Moving
mod Outcomes
mod Ends
pub mod Lawful
