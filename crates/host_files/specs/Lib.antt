pub mod Apps
pub mod Named
pub mod Places
pub mod Readings
pub mod Refusals
pub mod Shown
pub mod Ways
