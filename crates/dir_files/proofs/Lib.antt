mod Listings
pub mod Reading
pub mod Folders
pub mod OwnHandles
pub mod Opposed
pub mod Gates
pub mod Locking
