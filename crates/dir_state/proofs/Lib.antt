pub mod Notes
pub mod Turns
pub mod Orders
pub mod Answering
pub mod Ending
pub mod Whole
pub mod Pasts
