mod Wider
mod Asking
mod Shown
mod Tokens
mod Images
pub mod Views
mod Finding
mod Replied
mod Connections
pub mod Calm
