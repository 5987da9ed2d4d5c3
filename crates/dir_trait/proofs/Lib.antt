pub mod Listings
pub mod Askings
pub mod Knowing
pub mod Looking
pub mod Calls
pub mod ListCalls
