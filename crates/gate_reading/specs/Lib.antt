pub mod Gate
pub mod Files
pub mod Areas
pub mod Listings
