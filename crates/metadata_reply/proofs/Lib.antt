pub mod Merging
pub mod Lookups
pub mod Readings
pub mod Manifests
pub mod Apps
pub mod Replies
