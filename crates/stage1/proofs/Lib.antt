pub mod Trees
mod Rooted
mod Found
mod Lacking
pub mod Later
pub mod Apart
mod Counting
mod Asked
mod Cuts
mod Noted
pub mod Appends
mod Keeping
mod Causes
mod Forms
mod OneApp
mod Pairs
mod OneEnd
mod Ends
mod Whole
mod Rests
mod Times
mod Fresh
mod Stops
pub mod Starting
mod Held
mod Closed
pub mod Lawful
