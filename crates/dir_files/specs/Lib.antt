pub mod Listed
pub mod Reads
pub mod AreaLocks
