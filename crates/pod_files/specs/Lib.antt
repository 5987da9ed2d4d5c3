pub mod Places
pub mod Looks
pub mod Files
pub mod Lacks
