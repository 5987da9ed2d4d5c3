pub mod Greatest
pub mod Requested
pub mod Outcomes
