pub mod Working
pub mod Strays
pub mod Steps
pub mod Pieces
pub mod Copying
pub mod Entries
pub mod Filling
pub mod Reading
pub mod ReadsOf
pub mod Stored
pub mod Among
pub mod Carries
pub mod FilePaths
pub mod Made
mod Nexts
mod Texts
pub mod ImageMade
pub mod Marks
pub mod Images
pub mod Following
