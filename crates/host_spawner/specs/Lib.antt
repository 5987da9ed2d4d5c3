pub mod Children
pub mod Facts
pub mod Layout
pub mod Programs
pub mod Refusals
pub mod Roots
