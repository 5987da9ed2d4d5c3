pub mod Given
pub mod Searched
