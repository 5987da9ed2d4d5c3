pub mod StartPlaces
pub mod Numbers
pub mod Replies
