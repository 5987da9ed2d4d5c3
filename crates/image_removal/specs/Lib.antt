pub mod Requests
pub mod Passes
pub mod Calls
pub mod Causes
pub mod Work
pub mod Removals
pub mod Sweeps
pub mod Ended
