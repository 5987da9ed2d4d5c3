pub mod Draws
pub mod Bundles
