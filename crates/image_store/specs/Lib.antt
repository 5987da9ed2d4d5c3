pub mod Refusals
pub mod Requests
pub mod Plans
pub mod Work
pub mod Causes
pub mod Imports
pub mod Moves
