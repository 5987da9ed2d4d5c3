pub mod Looks
pub mod PodViews
pub mod Images
pub mod Running
pub mod Finding
pub mod Serving
pub mod Service
