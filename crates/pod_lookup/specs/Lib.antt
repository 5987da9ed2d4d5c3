pub mod Looks
pub mod Moments
pub mod AreaListings
pub mod Pods
pub mod Choice
pub mod Resolved
