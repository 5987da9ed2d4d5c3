pub mod Holdings
pub mod KnownBytes
