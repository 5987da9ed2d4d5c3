pub mod Cuts
pub mod Posts
