pub mod Tasks
pub mod Weights
pub mod Removal
pub mod Known
