pub mod Reading
pub mod Lacking
mod Tokens
pub mod AppNames
