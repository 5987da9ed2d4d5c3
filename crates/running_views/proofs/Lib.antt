pub mod Same
pub mod QuietReads
pub mod Limits
pub mod Running
pub mod FoundBefore
pub mod RepliedBefore
pub mod ServedBefore
pub mod OneReply
