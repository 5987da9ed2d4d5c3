pub mod Views
pub mod Replies
pub mod Laws
