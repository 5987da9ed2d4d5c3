pub mod Texts
pub mod Moments
