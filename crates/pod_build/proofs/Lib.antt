pub mod Steps
pub mod Locals
pub mod Times
pub mod Calls
pub mod Handing
pub mod Knowing
pub mod Outcomes
pub mod Begun
pub mod MakingLawful
pub mod TreesUnread
mod Parts
mod Working
mod Faithful
pub mod Lawful
