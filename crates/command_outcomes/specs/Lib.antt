pub mod Texts
pub mod Moments
pub mod Conforming
pub mod Ends
pub mod Meanwhile
