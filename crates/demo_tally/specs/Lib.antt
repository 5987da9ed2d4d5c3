pub mod TreeFiles
pub mod Tallies
