pub mod Tied
pub mod Standings
pub mod Unborn
pub mod Looks
