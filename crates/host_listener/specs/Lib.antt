pub mod Facts
pub mod Refusals
